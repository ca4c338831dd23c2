mod DecodingLaws
mod FitLaws
pub mod FolderLaws
pub mod MergingLaws
mod IndexLaws
mod RangeLaws
pub mod RankingLaws
mod SameBestLaws
mod ShareSumLaws
mod TokenOrderLaws
mod WordScoreLaws
mod SegmentLaws
mod StoredFieldsLaws
mod ReplacingLaws
mod SegmentRankingLaws
mod IndexRankingLaws
