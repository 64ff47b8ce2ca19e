mod ActLemmas
pub mod DueLemmas
mod StoreLemmas
pub mod ShowLemmas
mod ChangeLemmas
mod Spelt
