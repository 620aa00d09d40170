pub mod LogEntries
pub mod Following
pub mod ReplayAnswered
pub mod LogFronts
pub mod LogWalks
pub mod ReplayKept
pub mod ReplayRanges
