pub mod FirstCover
pub mod OrderKept
