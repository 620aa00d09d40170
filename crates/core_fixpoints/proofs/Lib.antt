pub mod Bridge
pub mod SetsListed
pub mod Passes
pub mod Expanding
pub mod TableOrder
pub mod Leaving
pub mod Staying
