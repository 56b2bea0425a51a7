pub mod CommandLines
pub mod GivenBack
pub mod HaveKept
pub mod KeptBytes
pub mod NextServices
pub mod Services
pub mod Texts
