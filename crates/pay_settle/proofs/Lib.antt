pub mod Adding
pub mod InTurn
pub mod OfLedgers
pub mod Totals
pub mod Together
pub mod Paid
pub mod Standing
pub mod Rows
