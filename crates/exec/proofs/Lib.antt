mod Joining
pub mod Listed
pub mod Lists
