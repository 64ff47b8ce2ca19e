pub mod CutLemmas
pub mod SentLemmas
pub mod EventLemmas
pub mod Printing
pub mod Records
pub mod TraceText
