pub mod Agreement
pub mod Bands
pub mod Differences
pub mod OneEdition
pub mod Laws
pub mod Words
