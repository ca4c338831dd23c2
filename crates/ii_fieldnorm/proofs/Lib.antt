pub mod BufferLemmas
pub mod FilledLaws
pub mod NormLemmas
pub mod WrittenNorms
