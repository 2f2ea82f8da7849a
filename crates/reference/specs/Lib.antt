-- The definitions of the reference machine, one chapter a file, in the order in which they are read. Those of the
-- instruction set are in the crate `instruction_set`, and those of what is around the core in the crate `platform`.
pub mod State
pub mod ProgramCounter
pub mod LoadStore
pub mod LoadStoreMultiple
pub mod Exclusives
pub mod Branches
pub mod SystemInstructions
pub mod Operations
pub mod Accesses
pub mod Faults
pub mod ExceptionEntry
pub mod ExceptionReturn
pub mod Step
pub mod Run
pub mod Start
pub mod Places
pub mod Peek
pub mod Invariant
