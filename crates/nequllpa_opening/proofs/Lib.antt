mod DocumentLemmas
mod IdsLemmas
pub mod OpenLemmas
