pub mod Ahead
pub mod Bytes
mod Keeping
pub mod Putting
mod Refusals
mod Sizes
pub mod Writing
mod Marking
