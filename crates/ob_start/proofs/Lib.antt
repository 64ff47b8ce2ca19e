mod PlaceLemmas
mod Slashes
mod MarkLemmas
