pub mod Settings
pub mod Memory
pub mod Halting
pub mod Selecting
pub mod Results
pub mod Opening
