mod AddressRows
pub mod BoundLemmas
pub mod LeftLemmas
pub mod PhrasePrefixLemmas
pub mod PrefixRows
pub mod QueryLemmas
pub mod RangeRows
pub mod RangeTextLemmas
pub mod SetLemmas
pub mod SetRows
pub mod SlopLemmas
pub mod SlopRows
pub mod StarredRows
pub mod TermLemmas
mod TokenizerRows
pub mod TreeLemmas
pub mod TrimmedRows
pub mod ValueOrder
pub mod WordsLemmas
pub mod WordsQueryLemmas
pub mod WorkedRows
