mod Checkpointing
mod Copies
pub mod Following
mod Rooms
pub mod Ticks
pub mod Ways
