pub mod Agreed
pub mod Parting
