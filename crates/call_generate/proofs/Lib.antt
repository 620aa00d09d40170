pub mod Numbers
pub mod RowsGenerated
pub mod Remainders
pub mod StoresGenerated
pub mod GenerateAnswered
pub mod LoadsKept
pub mod WorkedLoadKept
