pub mod Events
pub mod Problems
pub mod Segments
