pub mod Putting
pub mod Selecting
