pub mod Blocks
pub mod Idle
