pub mod Bytes
pub mod KeptDesks
pub mod LinesOfCommands
pub mod Puts
pub mod Replays
pub mod HandedOn
pub mod WholeLines
