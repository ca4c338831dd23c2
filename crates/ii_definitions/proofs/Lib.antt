mod FileRows
pub mod GroupedLaws
mod JsonRows
pub mod KeyLaws
pub mod ListLaws
pub mod PieceLaws
