pub mod Puts
pub mod Sound
pub mod Others
