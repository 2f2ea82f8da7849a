pub mod Tables
pub mod Found
pub mod Lookup
pub mod Named
