pub mod Decodes
pub mod DecodedBlocks
pub mod DeepValues
pub mod OrderlyCalls
pub mod Phrases
pub mod PlainCalls
pub mod Texts
pub mod HopelessBlocks
