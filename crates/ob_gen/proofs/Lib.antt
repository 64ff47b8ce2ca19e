pub mod Digesting
pub mod LineLemmas
pub mod Reading
pub mod Summing
pub mod Worked
