pub mod Bm25
pub mod Lengths
pub mod Log
pub mod Statistics
