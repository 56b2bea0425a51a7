pub mod Appended
pub mod Plain
pub mod ReadBack
