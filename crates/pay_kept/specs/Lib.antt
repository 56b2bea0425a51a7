pub mod Text
pub mod TextRows
pub mod Alike
pub mod Kept
pub mod Words
