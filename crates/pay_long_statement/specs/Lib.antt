pub mod Rows
pub mod Weeks
pub mod Text
pub mod Sums
pub mod Laws
pub mod Words
