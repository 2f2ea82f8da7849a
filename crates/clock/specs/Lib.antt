-- The definitions are those of `platform`, and what a clock keeps beside them.
pub mod AfterTicks
pub mod DueTick
pub mod Laws
pub use Rattle.platform.specs.Time
