mod Behind
mod Turns
mod Whole
