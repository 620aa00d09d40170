pub mod Fields
pub mod FailsSafe
pub mod Faithful
pub mod Figures
pub mod Small
pub mod Version
