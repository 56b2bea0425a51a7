pub mod Counts
pub mod WeekCells
pub mod WeekLines
pub mod Own
pub mod DaySums
pub mod Carried
pub mod Boardings
pub mod KnownPlaces
