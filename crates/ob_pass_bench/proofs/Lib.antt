pub mod Columns
pub mod Running
