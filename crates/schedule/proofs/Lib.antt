pub mod Sums
pub mod Cuts
pub mod Feeds
pub mod Numerals
pub mod Writing
pub mod Departing
pub mod Parsed
pub mod FirstLine
