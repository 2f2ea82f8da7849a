pub mod Popping
pub mod Shifts
pub mod Sums
