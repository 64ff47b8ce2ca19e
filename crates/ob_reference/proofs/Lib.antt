pub mod SourceLemmas
pub mod PlaceLemmas
pub mod SelectLemmas
pub mod StepLemmas
pub mod TableLemmas
