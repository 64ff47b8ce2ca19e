pub mod Searches
pub mod Inserting
pub mod Batches
pub mod IsNotes
pub mod Mutating
pub mod Changing
