mod Examples
mod Highest
