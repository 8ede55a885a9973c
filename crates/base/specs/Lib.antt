pub mod Lists
pub mod Sums
pub mod Numbers
pub mod Search
