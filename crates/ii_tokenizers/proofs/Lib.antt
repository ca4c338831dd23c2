pub mod PartLemmas
pub mod FilterLemmas
pub mod WordKindLemmas
pub mod SpaceLemmas
pub mod AsciiPartLemmas
pub mod AsciiWordLemmas
pub mod RunLemmas
pub mod LowercaseLemmas
pub mod StretchLemmas
pub mod OnLiterals
mod StopLemmas
mod WorkedRows
