pub mod Agreement
pub mod Blocks
pub mod Cards
