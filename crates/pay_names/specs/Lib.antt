pub mod IsCalled
pub mod Names
pub mod Words
pub mod Rows
