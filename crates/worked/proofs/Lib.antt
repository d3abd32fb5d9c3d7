pub mod Replays
pub mod Schedules
pub mod Policies
pub mod PlainSteps
pub mod Playing
pub mod Worked
