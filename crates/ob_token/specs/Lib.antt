pub mod Bytes
pub mod Words
pub mod Lexemes
pub mod Tokens
pub mod Cutting
pub mod Closing
