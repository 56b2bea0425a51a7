pub mod Corrected
pub mod Counted
pub mod Followed
