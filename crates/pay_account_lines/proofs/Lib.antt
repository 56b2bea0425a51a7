mod AddedLines
mod Lines
mod Marked
mod OwnAlone
mod Picked
mod PickedLines
mod ReadLines
