mod StartRows
pub mod OpenRun
pub mod Divisions
pub mod StartMarks
pub mod KeptJourneys
pub mod Cuts
