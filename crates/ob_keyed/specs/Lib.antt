pub mod Meaning
pub mod Asking
pub mod Serving
pub mod Seeing
pub mod Answering
pub mod Meant
pub mod Emitting
