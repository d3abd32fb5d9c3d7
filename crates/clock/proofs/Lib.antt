pub mod Reading
pub mod Arrays
pub mod Mapping
pub mod Counted
pub mod Moving
