mod Added
pub mod Adding
mod Charged
