pub mod OrderAnswers
pub mod OrderPromises
