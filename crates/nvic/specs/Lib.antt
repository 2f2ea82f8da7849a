-- What the laws of priorities say. The definitions are in the crate `platform`.
pub use Rattle.platform.specs.Priorities
pub mod Laws
pub mod Settings
pub mod Waiting
