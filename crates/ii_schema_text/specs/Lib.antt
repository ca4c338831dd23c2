pub mod SchemaText
pub mod Settings
pub mod Steps
pub mod Stored
