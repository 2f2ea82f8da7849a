pub mod Digits
pub mod Escapes
pub mod Framing
pub mod Numbers
pub mod Packets
pub mod Replies
pub mod Views
