pub mod ListedLaws
pub mod RangeLaws
pub mod TableLaws
mod WorkedRows
