pub mod OneMore
pub mod InTurn
pub mod Results
pub mod Changes
