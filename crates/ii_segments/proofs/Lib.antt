pub mod CountLaws
pub mod DocumentLaws
pub mod KeyLaws
pub mod MergeLaws
pub mod MergedLaws
pub mod OrderLemmas
mod WorkedRows
