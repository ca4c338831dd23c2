mod AnchorLemmas
pub mod BlockDocs
pub mod BoundLaws
pub mod BoundLemmas
pub mod DocumentLemmas
pub mod FrequencyLemmas
pub mod PackingLemmas
pub mod ReadBackLemmas
pub mod SkipReaderLemmas
pub mod SkipWriting
pub mod SplitLemmas
pub mod TermLemmas
pub mod WorkedRows
pub mod PositionLaws
pub mod PositionLemmas
pub mod PositionPacking
pub mod PositionRows
pub mod PositionSums
pub mod WrittenLaws
mod TermLaws
pub mod SizeLemmas
