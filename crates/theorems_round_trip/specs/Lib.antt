pub mod RoundTripCalls
pub mod Buffers
