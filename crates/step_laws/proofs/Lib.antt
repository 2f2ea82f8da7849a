pub mod StepRules
pub mod Settling
pub mod Parts
pub mod Devices
pub mod Reaching
pub mod BusRules
mod Lines
mod Bytes
mod Faults
pub mod Regions
mod Words
mod Frames
pub mod Stored
mod Pushed
mod Stacks
mod Returns
mod Signals
pub mod Sizes
mod Ticks
