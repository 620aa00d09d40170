pub mod RowsEdited
pub mod SessionReached
pub mod SessionAnswered
pub mod SessionEdits
pub mod SessionAnySet
pub mod SessionFirstWords
pub mod SessionKept
