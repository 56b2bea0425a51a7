mod ArchivedParts
mod InOrder
mod OwnSets
mod PartAccounts
mod PartRuns
mod Parted
mod PostedParts
