pub mod BestDocs
pub mod BlockLists
pub mod Combinations
pub mod QueryScorers
pub mod ScorerDepths
pub mod Scorers
pub mod TopDocs
pub mod TopNComputer
