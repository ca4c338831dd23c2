pub mod Bits
pub mod BlockDecoder
pub mod Blocks
pub mod Packed
pub mod Search
pub mod SortedVints
pub mod Sums
pub mod UnsortedVints
