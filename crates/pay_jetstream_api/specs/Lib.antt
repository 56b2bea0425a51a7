pub mod Answers
pub mod Asking
pub mod Finding
pub mod Rows
pub mod StreamNumbers
pub mod Versions
pub mod Words
