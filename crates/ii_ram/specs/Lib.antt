pub mod OpenedFiles
pub mod TrueBounds
