mod Cutting
pub mod Emitting
mod Gathering
mod Reading
mod Sending
mod Walks
