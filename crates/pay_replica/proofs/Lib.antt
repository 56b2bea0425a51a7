mod Heard
mod Told
