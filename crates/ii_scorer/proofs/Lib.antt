pub mod BlockListLaws
pub mod BoundLemmas
mod HeapLemmas
pub mod NeededLemmas
pub mod OrderLemmas
pub mod PartsLemmas
pub mod PassLemmas
pub mod ScorerLemmas
pub mod SumLemmas
pub mod TopLemmas
mod TopNLemmas
pub mod RunLemmas
pub mod WorkedRows
