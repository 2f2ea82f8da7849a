pub mod Digits
pub mod Emission
pub mod Ends
pub mod Tails
pub mod Selection
