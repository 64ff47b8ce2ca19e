pub mod Lexed
pub mod Digits
pub mod Emptiness
pub mod Pieces
pub mod Closing
