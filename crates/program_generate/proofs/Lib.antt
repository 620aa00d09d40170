pub mod Digits
pub mod Files
pub mod WorkedWordsKept
