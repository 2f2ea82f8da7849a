pub mod Active
pub mod Alike
pub mod Bits
pub mod Filled
pub mod First
pub mod KeptLevels
pub mod Lists
mod Reset
pub mod Others
