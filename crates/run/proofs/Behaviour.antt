-- What holds in every run, and the one schedule that a request and releases leave.
pub mod Accounts
pub mod Levels
pub mod Steps
pub mod Unique
pub mod Built
