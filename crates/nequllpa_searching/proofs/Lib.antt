mod FindingLemmas
mod QueryLemmas
mod WantedLemmas
mod OnceLemmas
mod DeletingLemmas
pub mod DeletingLaws
mod RankingLemmas
mod WorkedRows
mod TotalsLemmas
mod ShareTextLemmas
