pub mod LengthLemmas
pub mod LogLemmas
pub mod ScoreLemmas
pub mod SumLemmas
mod WorkedRows
