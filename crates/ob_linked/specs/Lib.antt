pub mod Linked
pub mod Leaves
pub mod Writing
pub mod Reading
pub mod Memory
pub mod Ahead
