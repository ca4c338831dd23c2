pub mod PartTextLemmas
pub mod PlaceLemmas
