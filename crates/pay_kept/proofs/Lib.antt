mod Lists
mod OnlyAsked
mod Alike
mod Texts
