pub mod RoundTripKept
pub mod BuffersKept
