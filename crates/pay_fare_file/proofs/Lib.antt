pub mod Items
pub mod Inclusive
