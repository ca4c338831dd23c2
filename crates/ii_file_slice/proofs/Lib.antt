pub mod BlockLemmas
pub mod CompositeLemmas
pub mod SliceLemmas
mod WorkedRows
