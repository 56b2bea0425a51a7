pub mod Memory
pub mod Words
