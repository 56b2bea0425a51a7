pub mod Levels
pub mod Limits
