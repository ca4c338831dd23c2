pub mod FieldTexts
pub mod Fragments
pub mod Marks
pub mod ObjectSnippets
pub mod Wanted
pub mod Windows
