pub mod WorkedRows
pub mod DictionaryLemmas
pub mod SearchLemmas
pub mod WriterLemmas
pub mod ReadDictionaryLemmas
pub mod OrderLemmas
pub mod FirstKey
pub mod ReadBackLemmas
mod MergerLemmas
pub mod LeastKey
pub mod SizeLemmas
