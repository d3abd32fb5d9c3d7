pub mod Sets
pub mod Moved
pub mod Rows
