pub mod Faults
pub mod HeldSegments
pub mod MergedSegments
pub mod OpenedSegments
pub mod MergePolicy
pub mod Joins
pub mod StoredDocuments
