pub mod ExactRunLemmas
pub mod RunLemmas
