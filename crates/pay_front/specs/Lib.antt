pub mod Partition
pub mod Routes
pub mod Closes
pub mod Answers
