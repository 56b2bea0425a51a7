pub mod Runs
pub mod Summaries
pub mod ToldReplays
mod Statements
mod StreamCauses
