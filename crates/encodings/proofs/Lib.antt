pub mod Letters
pub mod Masks
pub mod Places
pub mod Runs
pub mod Tables
