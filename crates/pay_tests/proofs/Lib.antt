pub mod Together
mod Unwilling
pub mod Used
