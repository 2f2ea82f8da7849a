pub mod Belonging
pub mod Blocks
pub mod Cases
pub mod Eighths
pub mod Owner
mod Sound
pub mod Writes
