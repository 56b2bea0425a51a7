mod Asked
mod Closing
mod FirstSpace
