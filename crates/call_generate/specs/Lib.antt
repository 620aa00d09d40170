pub mod Load
pub mod GenerateAnswers
pub mod Loads
pub mod WorkedLoad
