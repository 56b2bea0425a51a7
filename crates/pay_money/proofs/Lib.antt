pub mod Proportions
