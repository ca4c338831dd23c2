mod CheckingLaws
mod IndexingLaws
pub mod BoundLaws
mod DeepLaws
mod HintLaws
mod LoadedLaws
mod NearLaws
mod NearTokens
mod NormBoundLaws
mod OpenedLaws
mod OpeningLaws
mod PhraseLaws
mod FewLaws
mod TextFaults
mod OrderlyLaws
mod PlainLaws
mod PrefixTokens
mod ReadsLaws
pub mod BlockLaws
pub mod DecodesLaws
pub mod SearchingLaws
pub mod TextLaws
mod TopLaws
mod TermInfoLaws
mod WarmupLaws
mod WorkedRows
mod TopDecodes
