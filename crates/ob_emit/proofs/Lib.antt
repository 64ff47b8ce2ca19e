pub mod Printed
pub mod Events
pub mod Halting
pub mod Emitted
pub mod BlocksEmitted
