pub mod Keeping
pub mod Selecting
