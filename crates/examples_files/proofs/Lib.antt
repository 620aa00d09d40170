pub mod WorkedFilesKept
