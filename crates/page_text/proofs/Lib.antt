mod Whole
mod Shown
mod Joining
mod RowsMade
mod PlacesMade
mod SharesMade
