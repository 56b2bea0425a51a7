mod Lists
mod Accounts
mod Sought
mod SameRows
mod SharesRead
mod Sums
mod Fronts
mod Weeks
