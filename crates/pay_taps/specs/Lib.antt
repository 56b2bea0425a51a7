pub mod Timelines
pub mod Words
