pub mod Lines
pub mod Replays
pub mod HandedOn
pub mod Keeping
pub mod KeptAnswers
pub mod KeptParts
pub mod Puts
pub mod Words
