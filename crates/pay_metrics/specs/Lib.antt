pub mod Families
pub mod Fields
pub mod Laws
pub mod Metrics
pub mod Rows
pub mod Words
