pub mod Faults
pub mod WarmedSegments
