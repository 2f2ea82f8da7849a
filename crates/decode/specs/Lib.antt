-- The decoding of halfwords is defined in the crate `instruction_set`, and which instructions are kept in `micro`.
pub use Rattle.instruction_set.specs.Decoding
pub use Rattle.micro.specs.Instructions
pub mod Places
pub mod Marks
