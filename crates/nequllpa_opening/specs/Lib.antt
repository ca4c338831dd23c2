pub mod Documents
pub mod Faults
pub mod Ids
pub mod LivingTokens
pub mod OpenedSegments
pub mod RowFormats
pub mod Stored
