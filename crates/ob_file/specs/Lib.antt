pub mod Regions
pub mod Names
pub mod Paths
pub mod Complaints
pub mod Keeping
