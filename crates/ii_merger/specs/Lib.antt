pub mod MergeSources
pub mod MergedField
pub mod MergedFiles
pub mod MergedIndex
pub mod MergedNorms
pub mod MergedTerm
pub mod SourcesHold
