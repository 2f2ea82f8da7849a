pub mod AtOnce
mod Fetched
pub mod Fetching
mod Foreseen
mod Loading
mod ManySteps
mod Micros
mod Modes
mod Permitted
pub mod Running
mod QuietRuns
mod StepBounds
pub mod Selecting
mod Tasking
pub mod Quiet
mod TaskAnswers
mod WordLists
mod Writing
