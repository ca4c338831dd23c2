pub mod DateLaws
pub mod OnLiterals
mod WorkedRows
