pub mod Ranged
pub mod SetRows
pub mod InRange
pub mod Readings
