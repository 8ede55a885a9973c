mod Tries
pub mod Unique
