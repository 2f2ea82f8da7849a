pub mod Counts
pub mod Periods
pub mod Quiet
pub mod Scripts
pub mod Timers
pub mod Words
