pub mod FramingLemmas
pub mod BufferLemmas
pub mod SplitLemmas
pub mod ReadLemmas
