pub mod Edits
pub mod Partitions
pub mod Puts
pub mod Joins
pub mod Changes
pub mod Removals
pub mod Searches
