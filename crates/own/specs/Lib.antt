pub mod Ownership
pub mod After
pub mod Bars
pub mod Keeps
