pub mod Totals
pub mod Symbols
pub mod Ends
pub mod Rows
