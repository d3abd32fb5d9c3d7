pub mod Policies
pub mod Lines
pub mod Rows
pub mod Requests
