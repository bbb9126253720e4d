pub mod Calls
pub mod Answers
pub mod Faults
pub mod Replays
pub mod Leavings
