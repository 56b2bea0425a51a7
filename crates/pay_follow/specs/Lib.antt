pub mod Partitions
pub mod Following
pub mod Laws
pub mod Resuming
pub mod Words
