mod AddingLemmas
mod FloatLemmas
mod JsonLemmas
mod LineFieldsLemmas
mod LineLemmas
mod LinePlaceLemmas
pub mod NumberLaws
mod RecordLemmas
mod UnknownLemmas
mod WorkedRows
