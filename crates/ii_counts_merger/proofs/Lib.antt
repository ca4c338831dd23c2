pub mod HoldLemmas
pub mod RowLemmas
