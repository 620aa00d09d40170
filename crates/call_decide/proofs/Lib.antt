pub mod DecideAnswered
pub mod DecideDemandsKept
