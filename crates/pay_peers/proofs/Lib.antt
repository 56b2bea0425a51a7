pub mod Kept
pub mod Crossing
pub mod FirstWords
pub mod Greeted
pub mod Sent
pub mod Opened
