-- What the clauses of the reader of boards cite, beside the reference's `Boards`.
pub use Rattle.platform.specs.Boards
pub mod Values
pub mod Devices
pub mod Texts
pub mod Reading
