pub mod BlockCache
pub mod CompositeSlices
pub mod Faults
pub mod FileSlice
