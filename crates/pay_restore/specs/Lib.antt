pub mod Restored
pub mod Filed
pub mod Archives
pub mod Laws
pub mod Words
