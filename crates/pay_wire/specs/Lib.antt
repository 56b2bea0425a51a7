pub mod Calls
pub mod Commands
pub mod Fields
pub mod Numbers
pub mod Output
pub mod Replies
pub mod Spellings
pub mod Words
