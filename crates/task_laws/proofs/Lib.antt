mod Blocks
mod Memories
mod Priorities
pub mod Instructions
mod Accesses
mod Unprivileged
mod Tasks
mod Requests
mod Steps
mod Laws
pub mod Endings
