pub mod WorkedFiles
