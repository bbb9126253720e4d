pub mod Faults
pub mod Kinds
pub mod Numbers
pub mod Outcomes
pub mod Turns
pub mod Words
