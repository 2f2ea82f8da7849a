-- The definitions of what is around the core, one chapter a file, in the order in which they are read. Those of the
-- instruction set are in the crate `instruction_set`, and those of a step in the crate `reference`.
pub mod Kinds
pub mod Map
pub mod Memory
pub mod Regions
pub mod Priorities
pub mod Time
pub mod Outcomes
pub mod Status
pub mod Interrupts
pub mod Handlers
pub mod Control
pub mod SysTickRegisters
pub mod System
pub mod SpecialRegisters
pub mod Rules
pub mod Space
pub mod Text
pub mod Events
pub mod Images
pub mod Boards
pub mod SystemInvariant
pub mod Wiring
pub mod Bounded
