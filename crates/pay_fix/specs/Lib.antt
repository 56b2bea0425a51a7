pub mod Changes
pub mod Laws
mod Rows
pub mod Words
