mod FaultLemmas
mod DeleteLaws
mod DeleteLemmas
mod TokenLaws
mod SegmentLemmas
pub mod ScoredLemmas
pub mod HeldLemmas
mod TotalsLemmas
mod OpenLemmas
mod IndexLemmas
mod ReachLemmas
mod PendingLemmas
mod ChangeLemmas
mod CommitLemmas
mod WriterLemmas
