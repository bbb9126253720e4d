pub mod InTurn
pub mod BookTurns
pub mod ChartTurns
pub mod Replaying
pub mod Leaving
