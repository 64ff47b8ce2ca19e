pub mod Scripts
pub mod Runs
pub mod Drawing
pub mod Slotwise
pub mod Places
