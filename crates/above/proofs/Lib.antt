pub mod Above
pub mod Inverse
pub mod Unique
