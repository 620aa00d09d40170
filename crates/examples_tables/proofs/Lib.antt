mod Decides
pub mod Worked
