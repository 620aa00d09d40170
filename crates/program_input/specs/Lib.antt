pub mod Reads
pub mod WorkedReads
