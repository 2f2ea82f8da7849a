pub mod Devices
pub mod Scripts
pub mod Ordered
pub mod Lines
pub mod Wired
pub mod Taken
