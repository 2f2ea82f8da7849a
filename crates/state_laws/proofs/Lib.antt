mod Sets
mod Ticks
mod Systems
mod Memories
mod Accesses
mod Steps
pub mod Effects
mod Registers
mod Frames
mod Candidates
mod Entries
pub mod Ends
