pub mod Numbering
pub mod Stored
