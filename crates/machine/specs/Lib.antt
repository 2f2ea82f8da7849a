pub use Rattle.task_laws.specs.NextStep
pub use Rattle.target.specs.MachineModel
pub use Rattle.trace.specs.Selection
pub use Rattle.access.specs.Peek as PeekedWords
pub mod Runs
pub mod Peek
pub mod Selected
pub mod Starts
pub mod TaskRunLaw
pub mod Tasks
pub mod Execution
pub mod Fetched
pub mod Kept
pub mod Permits
pub mod Quiet
pub mod MadeSteps
