pub mod Fill
pub mod Rows
