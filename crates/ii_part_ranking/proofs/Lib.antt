pub mod PartLemmas
pub mod PartStatisticsLemmas
pub mod ScoreLemmas
mod WorkedRows
