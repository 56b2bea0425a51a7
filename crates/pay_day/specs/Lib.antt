pub mod Day
pub mod Words
