pub mod LastLeg
mod NumberRows
mod LegRows
mod FareRows
mod ShareRows
mod AccountRows
mod EditionRows
