pub mod Entries
pub mod Legal
pub mod Lists
pub mod Written
pub mod Holds
pub mod Again
