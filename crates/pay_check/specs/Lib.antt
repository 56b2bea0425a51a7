pub mod Against
pub mod Counting
pub mod Words
