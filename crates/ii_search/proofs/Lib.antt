pub mod DecodesLemmas
pub mod FoundLemmas
pub mod PartLemmas
pub mod PhrasePrefixLemmas
pub mod PhrasePrefixMatches
pub mod QueryLemmas
pub mod RangeLemmas
pub mod RangeMatches
pub mod SameDocs
pub mod TopLemmas
pub mod DecodesLaws
mod TopWorkLemmas
