pub mod RefusalNumbers
pub mod RefusalsPassed
