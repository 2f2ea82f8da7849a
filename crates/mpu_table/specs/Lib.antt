pub mod Boundaries
pub mod Intervals
pub mod Tables
pub mod Windows
