pub mod DecideAnswers
pub mod DecideDemands
