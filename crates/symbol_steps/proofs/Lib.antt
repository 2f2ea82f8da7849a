pub mod Sums
pub mod Named
pub mod Extents
pub mod Alone
pub mod Ranked
pub mod Apart
