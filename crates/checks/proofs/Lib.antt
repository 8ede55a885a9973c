pub mod Doubles
pub mod Unique
