pub mod Faults
pub mod Amounts
pub mod Postings
pub mod Paid
pub mod Answers
pub mod Archive
pub mod Ledger
pub mod PostingRows
pub mod NetRows
pub mod AccountRows
pub mod NewRows
pub mod Archived
pub mod Batches
pub mod Judged
pub mod Agreement
pub mod Laws
mod WorkedRows
mod BatchRows
pub mod Words
