pub mod SegmentSearch
pub mod Searcher
