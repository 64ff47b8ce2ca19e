pub mod BagLemmas
pub mod PairLemmas
pub mod SpellingLemmas
pub mod FieldLemmas
pub mod CellsLemmas
pub mod PlaceLemmas
pub mod KeyNumbers
