pub mod DocumentLemmas
pub mod LeafLemmas
pub mod LeafRows
pub mod OutputLemmas
pub mod ReplyLemmas
pub mod RunLemmas
mod SearchLemmas
pub mod SessionLemmas
pub mod TextLemmas
pub mod WordLemmas
pub mod WorkedRows
