pub mod Answered
pub mod Asks
pub mod Given
pub mod Opening
pub mod Said
pub mod StreamParts
pub mod Taken
