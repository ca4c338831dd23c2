mod AliveLemmas
pub mod AscentLemmas
pub mod AsciiLemmas
pub mod BufferLemmas
pub mod CharLemmas
pub mod CleanLemmas
mod JsonRows
pub mod OptionLemmas
mod PathLemmas
mod PathRows
pub mod ResultLemmas
pub mod RunLemmas
pub mod RunTokenLemmas
mod SplitLemmas
mod WeightLemmas
mod WorkedRows
