pub mod Histories
pub mod Laws
pub mod Partitions
pub mod Parts
