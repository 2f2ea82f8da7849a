pub mod Commands
pub mod Conduct
pub mod Purposes
pub mod Replies
pub mod Sessions
pub mod Writes
