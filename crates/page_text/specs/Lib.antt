pub mod Edges
pub mod Pages
pub mod AccessTables
pub mod Growing
