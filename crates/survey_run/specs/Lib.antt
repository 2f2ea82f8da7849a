pub use Rattle.survey.specs.Surveys
pub mod Begun
pub mod WorldRuns
pub mod CountModel
