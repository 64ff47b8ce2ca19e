pub mod WordsRead
pub mod SavedWords
