pub mod Flat
pub mod Row
