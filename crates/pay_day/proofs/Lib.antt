pub mod Clock
mod Rows
