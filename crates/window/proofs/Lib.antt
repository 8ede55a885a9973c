pub mod Phases
pub mod Steady
pub mod Sweep
pub mod Unique
pub mod Sides
pub mod Behind
pub mod Cases
