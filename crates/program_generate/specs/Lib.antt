pub mod Words
pub mod LoadFile
pub mod WorkedWords
