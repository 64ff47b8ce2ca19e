pub mod Beside
pub mod Passes
pub mod Sizes
