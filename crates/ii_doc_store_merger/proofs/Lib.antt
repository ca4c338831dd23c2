pub mod MergeLemmas
pub mod ReadLemmas
pub mod WriterLemmas
