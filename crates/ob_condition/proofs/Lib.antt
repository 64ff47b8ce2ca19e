pub mod Quoted
pub mod Told
pub mod GoodConditions
pub mod Ends
pub mod Faults
pub mod PrimSteps
