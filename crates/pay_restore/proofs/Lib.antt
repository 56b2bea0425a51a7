pub mod AtNumbers
pub mod Steps
pub mod Sets
pub mod Values
pub mod Taken
pub mod Rows
pub mod Archive
