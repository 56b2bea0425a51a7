pub mod Adding
pub mod Laws
pub mod Marks
pub mod OwnLines
pub mod Words
