pub mod From
pub mod Unique
