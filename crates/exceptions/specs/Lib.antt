pub mod LineBounds
pub mod Performing
