pub mod Parting
pub mod Waiting
