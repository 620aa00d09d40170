pub mod WordSets
