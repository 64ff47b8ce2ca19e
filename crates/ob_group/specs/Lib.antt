pub mod Running
pub mod Grouping
pub mod Held
pub mod IsAccs
pub mod Labels
pub mod Answers
pub mod Passes
pub mod Steps
