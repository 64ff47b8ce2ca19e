pub mod Cuts
pub mod Lines
pub mod Records
pub mod Rows
pub mod Sent
