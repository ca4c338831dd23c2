pub mod BoundLaws
pub mod NoTokens
pub mod RamLaws
pub mod WithinLimits
