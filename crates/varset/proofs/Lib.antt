mod Bits
mod Masks
mod HowMany
pub mod Below
pub mod Visiting
pub mod Listing
