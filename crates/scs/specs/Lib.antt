-- The definitions are those of `platform`. Here are what a write to a block of registers leaves, and what the laws
-- say.
pub mod Laws
pub mod LineLevels
pub mod Writes
