pub mod ContentsLength
mod Chunks
mod Lanes
mod Summing
