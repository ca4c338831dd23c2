pub mod Documents
pub mod HoldCounts
pub mod SegmentLaws
pub mod Segments
