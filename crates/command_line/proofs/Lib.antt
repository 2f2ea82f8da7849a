mod Allowing
mod Asking
mod Dumping
mod Listing
mod Parsing
mod Searching
mod Stopping
mod Worded
