pub mod CellSums
pub mod CellOf
pub mod Cells
pub mod SumPrices
pub mod Stretches
pub mod Laws
pub mod Words
