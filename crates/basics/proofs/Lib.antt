pub mod BoundLaws
pub mod RefusalLaws
