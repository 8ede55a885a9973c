-- What a window can hold, and the windows that timely rows tell of.
pub mod Counted
pub mod Demands
pub mod Whole
pub mod Windows
pub mod Rows
