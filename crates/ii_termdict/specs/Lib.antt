pub mod Dictionary
pub mod ReadBack
pub mod TermDictionaryBuilder
pub mod TermDictionaryWriter
pub mod Written
pub mod TermStreamer
pub mod TermMerger
