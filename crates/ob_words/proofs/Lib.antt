pub mod WordLemmas
pub mod SavedWordLemmas
