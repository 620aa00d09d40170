pub mod BlocksJoined
pub mod ReadGrounds
