pub mod Weighing
pub mod Fares
