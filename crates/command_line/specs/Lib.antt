pub mod Allowed
pub mod Commands
pub mod Dumps
pub mod Notices
pub mod Stops
pub mod Subcommands
