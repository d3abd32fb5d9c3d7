pub mod Limits
pub mod Facts
pub mod Moves
pub mod Answers
pub mod Due
