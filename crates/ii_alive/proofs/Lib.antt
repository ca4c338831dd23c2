pub mod BitLemmas
pub mod FlagLemmas
pub mod RankLemmas
pub mod ReadLemmas
pub mod StateLemmas
pub mod WordLemmas
mod WorkedRows
