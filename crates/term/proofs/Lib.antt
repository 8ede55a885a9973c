pub mod Shares
pub mod Terms
pub mod Unique
