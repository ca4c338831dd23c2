mod WorkedRows
pub mod RowLaws
