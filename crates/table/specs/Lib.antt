pub mod Faults
pub mod Views
pub mod Checks
pub mod Collect
pub mod Making
pub mod Tickets
