pub mod Fronts
pub mod LastOnes
pub mod Winners
pub mod WeekSplit
pub mod Counted
pub mod Corrected
pub mod ByRail
pub mod Beside
pub mod Ordered
pub mod DayLists
pub mod DayRows
pub mod ReasonRows
mod CapRows
