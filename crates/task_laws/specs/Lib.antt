-- What a task is, and the laws of tasks. The step and its phases are in the crate `reference`.
pub use Rattle.reference.specs.Step
pub mod NextStep
pub mod Tasks
pub mod Sight
pub mod TaskLaw
