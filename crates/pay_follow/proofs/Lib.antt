pub mod FollowedLines
pub mod Replicas
pub mod Resumed
