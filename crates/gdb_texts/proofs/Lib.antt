pub mod Appending
pub mod Ours
pub mod Splitting
