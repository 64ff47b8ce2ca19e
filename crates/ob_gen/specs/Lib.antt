pub mod Generated
pub mod SummaryText
pub mod Tally
