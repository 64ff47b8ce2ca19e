pub mod Statements
pub mod StatementReading
pub mod Selects
pub mod Refusal
