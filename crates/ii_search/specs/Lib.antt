pub mod Decodes
pub mod Found
pub mod PhrasePrefixes
pub mod Ranges
pub mod TopByCount
