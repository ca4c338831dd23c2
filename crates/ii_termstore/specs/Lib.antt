pub mod ReadBack
pub mod TermInfoLemmas
pub mod TermInfoStoreWriter
pub mod TermInfos
pub mod TermStore
pub mod TermStoreLemmas
pub mod Written
