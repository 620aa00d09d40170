pub mod Reading
pub mod ReadAnswers
