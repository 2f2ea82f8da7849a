pub mod Bits
pub mod FieldsOfWords
pub mod Ranges
pub mod Wide
