-- The laws of a step. The step and its phases are in the crate `reference`.
pub use Rattle.reference.specs.Step
pub mod AccessLaw
pub mod DeviceLaw
pub mod FrameLaw
pub mod RegionLaw
pub mod SignalLaw
pub mod SizeLaw
pub mod TickLaw
