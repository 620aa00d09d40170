pub mod RowsMapped
pub mod SetsJoined
pub mod SetsHeld
pub mod RowsLent
