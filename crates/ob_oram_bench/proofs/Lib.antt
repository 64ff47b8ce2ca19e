pub mod Made
pub mod Rested
pub mod Served
