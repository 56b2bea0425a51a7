pub mod Differs
pub mod Settled
pub mod Unclosed
pub mod Words
