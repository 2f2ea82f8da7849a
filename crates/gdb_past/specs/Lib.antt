pub mod Checkpoints
pub mod Copies
pub mod Places
pub mod Rooms
pub mod Ways
