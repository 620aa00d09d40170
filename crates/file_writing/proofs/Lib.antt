pub mod Joined
pub mod WriteLaws
