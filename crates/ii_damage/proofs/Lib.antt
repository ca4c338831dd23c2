pub mod CallsFit
pub mod JsonLeaves
pub mod KeptLaws
pub mod KeyLemmas
pub mod ListedLemmas
pub mod NormLemmas
pub mod PlaceLemmas
pub mod SoundFields
pub mod SoundIndex
pub mod SumLaws
pub mod TableLemmas
pub mod TableLists
pub mod TotalsLemmas
pub mod WalkedLemmas
mod WorkedRows
