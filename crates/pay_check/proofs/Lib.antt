pub mod CountsLine
pub mod AgainstOld
