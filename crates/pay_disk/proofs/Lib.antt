pub mod Clean
pub mod NewFiles
