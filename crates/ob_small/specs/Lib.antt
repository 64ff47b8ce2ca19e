pub mod Keeping
pub mod Selection
pub mod Steps
