pub mod SetLaws
pub mod AccountLaws
