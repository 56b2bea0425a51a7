mod Decoding
mod Finding
mod Numbered
mod Numbers
mod Parted
mod Texts
mod Turns
