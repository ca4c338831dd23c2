pub mod Listed
pub mod Statistics
