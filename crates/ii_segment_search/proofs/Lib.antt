pub mod FindLaws
pub mod LocalLaws
pub mod SearchLemmas
mod WorkedRows
