pub mod Places
pub mod Puts
pub mod Due
pub mod Rows
pub mod Counting
pub mod Selected
mod Examples
pub mod Fresh
