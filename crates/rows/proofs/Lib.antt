pub mod Laid
pub mod Told
pub mod Unique
