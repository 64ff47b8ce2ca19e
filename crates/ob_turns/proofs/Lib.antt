pub mod Closings
mod Draws
