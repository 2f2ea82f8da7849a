mod Counted
mod OneMore
pub mod WorldsCounted
pub mod Stepping
mod Written
