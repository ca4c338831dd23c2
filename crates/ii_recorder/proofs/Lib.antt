pub mod Documents
pub mod TermLemmas
pub mod IndexLemmas
pub mod HeldTermLemmas
pub mod GrowthLemmas
pub mod RecorderLemmas
pub mod PushLemmas
pub mod DeltaLemmas
pub mod PushedEntries
pub mod TokenLaws
pub mod FieldKeys
pub mod WorkedRows
mod VintRowLemmas
mod GatheredLemmas
mod StateLemmas
pub mod SizeLemmas
