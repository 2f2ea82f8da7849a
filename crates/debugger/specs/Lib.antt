pub mod Answers
pub mod Held
pub mod Laws
pub mod Sessions
pub mod Slots
pub mod StateText
