pub mod OpenFiles
pub mod OpenSegments
