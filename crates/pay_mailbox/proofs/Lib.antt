pub mod Counts
pub mod Learned
pub mod Moves
pub mod Rests
pub mod Rows
