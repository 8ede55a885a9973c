pub mod Format
pub mod Record
pub mod Answers
pub mod Checks
pub mod Block
pub mod Cases
pub mod Legal
