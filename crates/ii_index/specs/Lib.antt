pub mod Deletes
pub mod Faults
pub mod Index
pub mod Pending
pub mod Segments
pub mod Searching
pub mod Statistics
pub mod Ranking
