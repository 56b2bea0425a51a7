pub mod NumberMaps
pub mod Spans
pub mod FoundItems
pub mod Within
pub mod Days
