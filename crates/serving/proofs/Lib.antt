mod Answering
pub mod Lifting
pub mod Delivering
