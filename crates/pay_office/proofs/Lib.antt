mod Commands
mod Joined
mod Refused
mod Waited
