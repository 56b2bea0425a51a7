pub mod Kept
pub mod Years
pub mod Windows
