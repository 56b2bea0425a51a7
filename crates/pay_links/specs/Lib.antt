pub mod OpenRun
pub mod Starts
pub mod Laws
pub mod Words
