pub mod Codes
pub mod Exits
pub mod Cases
pub mod Late
pub mod Kept
pub mod Unique
