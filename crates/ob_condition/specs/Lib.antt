pub mod Marks
pub mod Conditions
pub mod Reading
