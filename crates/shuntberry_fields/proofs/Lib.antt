pub mod FieldsAnswered
pub mod FailsSafeKept
pub mod FaithfulKept
pub mod FiguresKept
