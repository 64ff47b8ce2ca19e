pub mod Halfway
pub mod Wiped
pub mod Selected
