pub mod Elapsing
pub mod FlushLaws
pub mod ListingLaws
pub mod MemoryLaws
pub mod NameLaws
pub mod NameParse
mod WorkedRows
