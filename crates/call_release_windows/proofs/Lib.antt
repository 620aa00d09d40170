pub mod Searches
pub mod Waits
pub mod Jumps
pub mod WindowsAnswered
pub mod Weeks
pub mod WindowsKept
