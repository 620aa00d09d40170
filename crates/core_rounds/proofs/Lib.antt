pub mod Adding
pub mod Running
