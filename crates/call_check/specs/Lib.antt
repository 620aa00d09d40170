pub mod CheckText
pub mod CheckAnswers
pub mod Reported
