-- The laws of the state. The invariant, the start, the step and what places a value are in the crate `reference`.
pub use Rattle.reference.specs.Invariant
pub mod StateLaw
