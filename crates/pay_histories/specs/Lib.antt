pub mod Payments
pub mod From
pub mod Restores
