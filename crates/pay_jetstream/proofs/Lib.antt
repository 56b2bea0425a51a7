pub mod Asking
pub mod Taking
