pub mod Ends
pub mod Pairs
pub mod PartsOfLines
pub mod Lists
pub mod Ticks
pub mod Selecting
