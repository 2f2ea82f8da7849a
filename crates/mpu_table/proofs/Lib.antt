pub mod Cuts
pub mod Owned
pub mod Halves
pub mod Deciding
pub mod Alike
pub mod Copies
