pub mod ReadingLemmas
pub mod MetaLemmas
pub mod StoreSliceLemmas
pub mod DictionarySliceLemmas
