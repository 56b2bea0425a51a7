mod DatesOf
mod Numerals
mod ServiceDays
