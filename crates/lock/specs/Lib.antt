pub mod Locks
pub mod After
pub mod Bars
pub mod Apart
pub mod Keeps
