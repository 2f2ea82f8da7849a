-- The law of the MPU's registers is in the crate `step_laws`.
pub use Rattle.step_laws.specs.RegionLaw
pub mod Counts
pub mod Settings
pub mod Faults
pub mod Cells
pub mod CodeCounts
pub mod Timeline
pub mod Console
pub mod Surveys
pub mod CountLaw
pub mod LineLaw
pub mod SumLaw
pub mod TimeLaw
pub mod CodeLaw
