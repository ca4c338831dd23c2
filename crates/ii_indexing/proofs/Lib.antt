pub mod CallLaws
pub mod CallsLaws
pub mod DocumentLaws
pub mod FieldLists
pub mod FinishLaws
pub mod NormFileLaws
pub mod HeldLaws
pub mod KnownLaws
pub mod LeafLaws
pub mod PathLaws
mod PathPositions
pub mod PieceLaws
pub mod RamLaws
pub mod RefusalLaws
pub mod StoreLaws
pub mod StoredLaws
mod WorkedRows
pub mod WrittenFiles
mod FaultLaws
