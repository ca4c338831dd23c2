pub mod Reading
pub mod Slices
