pub mod Paths
pub mod Rows
pub mod States
pub mod Access
