pub mod Devices
mod Accessed
mod AtOnce
pub mod Fetches
mod Refusals
mod PeekedWords
pub mod Stale
