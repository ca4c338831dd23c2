pub mod BlockShares
pub mod NormIds
