pub use Rattle.target.specs.MachineModel
pub use Rattle.output.specs.Input
pub use Rattle.output.specs.Output
pub mod Conduct
pub mod Pieces
pub mod Sessions
