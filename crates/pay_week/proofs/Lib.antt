pub mod WeekSums
