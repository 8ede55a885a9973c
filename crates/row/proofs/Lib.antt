pub mod Bridge
pub mod Unique
pub mod Windows
