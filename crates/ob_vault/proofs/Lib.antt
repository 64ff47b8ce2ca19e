pub mod WorldSteps
pub mod Resumed
pub mod Lies
pub mod Runs
pub mod RowsLemmas
pub mod WordLemmas
pub mod LawLemmas
pub mod Rekeyed
