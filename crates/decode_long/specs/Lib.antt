-- What halfwords decode to. The rows are in the crate `instruction_set`.
pub use Rattle.instruction_set.specs.Decoding
