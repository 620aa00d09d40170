pub mod Edits
pub mod SessionAnswers
pub mod SessionPromises
