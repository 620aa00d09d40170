pub mod Lanes
pub mod Forms
