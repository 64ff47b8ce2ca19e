pub mod Codes
pub mod Folds
pub mod Selected
pub mod Runs
