pub mod CountLemmas
pub mod DamageLemmas
pub mod ListedLemmas
pub mod StatisticsLaws
pub mod TermCountLemmas
pub mod TermLemmas
mod WorkedRows
