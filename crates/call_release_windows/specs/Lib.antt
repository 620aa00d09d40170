pub mod Windows
pub mod WindowAnswers
pub mod WindowPromises
