pub mod Below
pub mod Members
