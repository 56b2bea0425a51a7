pub mod LaneDesks
pub mod Offices
pub mod Waits
pub mod Words
