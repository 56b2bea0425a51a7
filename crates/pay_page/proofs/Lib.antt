pub mod Adding
pub mod Pages
