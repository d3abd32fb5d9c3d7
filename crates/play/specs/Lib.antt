pub mod Room
pub mod Printed
pub mod Performing
pub mod Playing
pub mod Output
