mod ReadableBytes
pub mod Showing
mod Slicing
mod NeededLines
mod Turning
mod Searching
mod Returning
pub mod Unwatched
