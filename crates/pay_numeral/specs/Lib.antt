pub mod Numerals
