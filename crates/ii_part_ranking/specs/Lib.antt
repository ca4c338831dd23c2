pub mod PartScores
pub mod PartStatistics
