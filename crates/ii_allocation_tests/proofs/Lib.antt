mod CheckedCalls
pub mod EvenDocuments
mod ReadingBack
pub mod ThreeKeys
