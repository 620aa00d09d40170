pub mod TextsPut
pub mod Turns
pub mod Decimals
pub mod WorkedTextsKept
