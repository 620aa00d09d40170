pub mod Modal
pub mod ModalAnswers
pub mod ModalPromises
pub mod Hangs
