pub mod WorldLaw
pub mod ReachedLaw
