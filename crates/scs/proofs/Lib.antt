pub mod Devices
pub mod Passing
mod Places
mod Refused
pub mod Refusals
pub mod Sound
pub mod SysTickReads
