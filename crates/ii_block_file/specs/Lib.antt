pub mod BlockTable
pub mod ListedFile
