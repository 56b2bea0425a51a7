pub mod Close
pub mod Words
pub mod Faults
pub mod Batches
pub mod Gathers
pub mod Laws
pub mod Closes
pub mod Opens
