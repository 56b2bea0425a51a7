pub mod LastPaid
pub mod Laws
pub mod Words
