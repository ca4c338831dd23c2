mod ChainLemmas
pub mod FoundLemmas
pub mod LivingLemmas
