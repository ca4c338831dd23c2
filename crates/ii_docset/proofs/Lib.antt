pub mod AliveLemmas
pub mod BoxLemmas
pub mod BufferLemmas
pub mod CursorLemmas
pub mod IntersectionLemmas
pub mod OffsetLemmas
pub mod WalkLemmas
