pub mod Documents
pub mod Ranges
pub mod Forgetting
pub mod PutEditions
