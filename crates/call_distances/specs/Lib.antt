pub mod Transposing
pub mod Distances
pub mod DistancePromises
