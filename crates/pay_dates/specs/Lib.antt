pub mod Calendar
pub mod Dates
pub mod Laws
pub mod Reading
pub mod Words
