mod Counted
mod Joins
mod OwnRequests
mod OwnTexts
mod Stated
mod Told
mod Values
