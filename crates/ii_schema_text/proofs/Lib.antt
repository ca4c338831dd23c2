pub mod SchemaLaws
mod WorkedRows
mod TypeNames
