pub mod BackLaw
pub mod ReadLaw
pub mod RunLaw
