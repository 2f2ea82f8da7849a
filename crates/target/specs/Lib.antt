-- A machine as a session sees it.
pub use Rattle.task_laws.specs.NextStep
pub mod Endings
pub mod MachineModel
pub mod Placing
pub mod Values
