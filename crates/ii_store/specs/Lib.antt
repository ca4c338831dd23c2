pub mod Collect
pub mod Faults
pub mod FileDigest
pub mod Index
pub mod IndexMeta
pub mod SalvagedIndex
pub mod Save
pub mod Segments
