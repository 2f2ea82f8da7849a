pub mod Cuts
pub mod Emitting
pub mod Input
pub mod Output
