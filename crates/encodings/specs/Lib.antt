-- How the code reads a row: the bits that its text fixes as masks, and its fields as runs of bits. The rows are in the
-- crate `instruction_set`.
pub use Rattle.instruction_set.specs.Decoding
pub mod Runs
pub mod Masks
