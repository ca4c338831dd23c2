pub mod Grammar
pub mod Lexemes
pub mod Parsed
pub mod Spelling
pub mod Trees
