pub mod SetsBits
pub mod SetsWords
pub mod SetsTests
pub mod SetsOnes
pub mod SetsByWord
pub mod SetsStates
