pub mod IndexFiles
pub mod IndexedTerms
pub mod Indexer
pub mod OpenDocuments
pub mod OpenPaths
pub mod RamFiles
pub mod Refusals
