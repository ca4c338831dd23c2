mod BranchLemmas
mod CleanPaths
mod DottedLemmas
pub mod KeyOrder
pub mod KnownPaths
pub mod LeafVisitLemmas
mod NumberLeaves
pub mod ParseLemmas
mod RankLemmas
mod WorkedRows
