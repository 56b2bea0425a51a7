pub mod Taken
pub mod Closes
pub mod Words
