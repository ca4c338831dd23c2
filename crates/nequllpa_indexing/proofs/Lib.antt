mod KeyLemmas
mod DocumentLemmas
mod FieldLaws
pub mod LineTokens
mod StoredLaws
mod CountLaws
mod KeyTokenLaws
mod WorkedRows
