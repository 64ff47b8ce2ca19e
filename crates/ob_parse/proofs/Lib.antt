pub mod GoodStatements
pub mod Constraints
pub mod Selects
pub mod Keeping
pub mod Parts
pub mod Steps
