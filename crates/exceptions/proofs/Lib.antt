pub mod Fetching
mod FrameWords
pub mod LineBounds
pub mod Performing
mod Vectors
