pub mod WeekSumPrices
pub mod Laws
pub mod Words
