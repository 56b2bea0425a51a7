pub mod Sorting
pub mod TouchOrder
pub mod Places
pub mod PlacesAgain
