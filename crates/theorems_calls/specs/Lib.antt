pub mod Places
pub mod Grounds
pub mod Accepting
pub mod States
pub mod RewriteCalls
