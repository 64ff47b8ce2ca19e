mod Appending
pub mod MarkLemmas
pub mod FirstParts
mod HeldLemmas
