pub mod Cells
pub mod Counts
mod DayRows
pub mod Priced
pub mod Weeks
