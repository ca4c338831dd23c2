pub mod FreqReading
pub mod CheckedBlocks
pub mod CheckedPositions
pub mod DecodedBlocks
pub mod CheckedPostings
pub mod Check
pub mod Positions
