pub mod Escapes
pub mod Laws
pub mod Words
