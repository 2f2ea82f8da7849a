pub mod Clips
pub mod Visible
