mod Adding
mod Policies
mod Rights
mod Values
mod Wished
