pub mod Letters
pub mod Unescaped
