pub mod LastPaying
pub mod PayingSets
pub mod Stretches
