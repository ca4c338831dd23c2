pub mod Buffers
pub mod Norms
pub mod Readers
