mod KeptList
mod SoughtNumber
mod Fronts
mod Rows
