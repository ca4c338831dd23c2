pub mod LoadLaws
mod KeptLaws
mod WantedLaws
pub mod CommitLaws
pub mod PendingLaws
mod FlagLaws
mod OrderLaws
mod ClearLaws
mod WorkedRows
pub mod ChangeLaws
pub mod ListLaws
pub mod JoinLaws
mod NewLaws
