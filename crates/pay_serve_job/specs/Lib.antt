pub mod Service
pub mod Stays
