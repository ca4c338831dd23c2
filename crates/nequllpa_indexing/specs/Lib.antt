pub mod Counted
pub mod Documents
pub mod FieldTokens
pub mod Inputs
pub mod KeyedLines
pub mod StoredLines
