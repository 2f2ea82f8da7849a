pub mod Describing
pub mod Spans
pub mod Making
pub mod Placing
pub mod PlacesMade
pub mod OnePlaces
pub mod Spanning
pub mod Texts
pub mod Unique
pub mod SameSettings
pub mod Counted
mod Visible
mod Joining
mod Pairs
