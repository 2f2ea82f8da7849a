pub mod Headers
pub mod Overlaps
