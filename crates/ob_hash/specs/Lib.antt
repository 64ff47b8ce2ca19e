pub mod Waiting
pub mod Filling
pub mod Bucketed
pub mod Hashing
pub mod Answers
pub mod Selecting
