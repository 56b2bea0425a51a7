pub mod NextBoardings
pub mod WeekCells
pub mod WeekBands
pub mod Laws
