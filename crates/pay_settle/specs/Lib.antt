pub mod Sums
pub mod Settled
pub mod Standing
pub mod Refused
pub mod Laws
pub mod Text
pub mod Ledgers
mod WorkedRows
