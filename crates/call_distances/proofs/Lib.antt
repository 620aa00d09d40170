pub mod RowsTransposed
pub mod DistanceLayers
pub mod DistancesAnswered
pub mod DistancesKept
