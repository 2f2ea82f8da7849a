-- What the clauses of the loader cite, beside the reference's `Images`.
pub use Rattle.platform.specs.Images
pub mod Segment
