pub mod PlacesKept
pub mod GroundsKept
pub mod AcceptingKept
pub mod StatesKept
pub mod RewriteCallsKept
