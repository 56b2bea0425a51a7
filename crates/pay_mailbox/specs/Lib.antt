pub mod Of
pub mod Parts
pub mod Rules
pub mod Seen
pub mod Words
