pub mod CompleteLemmas
pub mod CutLemmas
pub mod EscapeLemmas
pub mod LexerLemmas
pub mod SetLemmas
pub mod SlopLemmas
pub mod SoundLemmas
pub mod SpellLemmas
mod WorkedRows
