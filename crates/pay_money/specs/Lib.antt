pub mod Shares
pub mod Words
