pub mod Analyzers
pub mod Tokenizers
pub mod Stretches
