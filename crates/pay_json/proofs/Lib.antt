pub mod Letters
pub mod Adding
pub mod Items
pub mod Documents
pub mod Reading
pub mod Signs
