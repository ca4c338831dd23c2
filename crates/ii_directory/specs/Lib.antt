pub mod Directory
pub mod FileSystem
pub mod MemoryFiles
pub mod Names
