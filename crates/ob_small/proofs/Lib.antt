pub mod Choosing
pub mod Kept
pub mod Windows
pub mod Lengths
pub mod Places
pub mod Selected
pub mod Steps
