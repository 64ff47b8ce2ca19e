pub mod LinkedLemmas
pub mod DownLemmas
pub mod SavedLemmas
pub mod LeafLemmas
pub mod WritingLemmas
pub mod ReadingLemmas
pub mod AheadLemmas
