pub mod Sums
pub mod Numbers
pub mod Search
pub mod Recip
pub mod Flat
pub mod Lists
pub mod Unique
pub mod Cases
