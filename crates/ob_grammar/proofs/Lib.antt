pub mod Good
pub mod Placed
pub mod Forms
pub mod Loops
