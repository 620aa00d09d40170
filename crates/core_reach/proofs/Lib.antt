pub mod ReachLayers
pub mod ReachWalks
