pub mod Warnings
pub mod Printed
pub mod Words
pub mod Rows
pub mod PrintedRows
