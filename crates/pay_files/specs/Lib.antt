pub mod Journals
pub mod Logged
pub mod JournalRows
