pub use Rattle.micro.specs.Instructions
pub mod Found
pub mod KeptAccesses
pub mod Peek
