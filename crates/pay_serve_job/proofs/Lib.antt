pub mod Lent
pub mod Served
pub mod Stays
