mod FileLemmas
mod LoopLemmas
mod MergeLemmas
pub mod OpenLemmas
mod ResultLemmas
mod PolicyLaws
mod JoinLemmas
mod MergedLemmas
mod StoreLemmas
