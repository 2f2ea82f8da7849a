-- The laws of the rows. The rows are in the crate `instruction_set`.
pub use Rattle.instruction_set.specs.Decoding
pub mod Laws
pub mod Overlaps
