pub mod Search
pub mod PathAnswers
pub mod PathDemands
pub mod Within
