pub mod BoundLemmas
mod ListOrderLemmas
pub mod PreparedLemmas
pub mod PreparedQueryLemmas
pub mod PreparedSegmentLemmas
mod ReadLemmas
pub mod ScoredListLemmas
mod WorkedRows
