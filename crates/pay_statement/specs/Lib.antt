pub mod Rows
pub mod Statement
pub mod Words
