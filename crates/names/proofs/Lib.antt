pub mod Lookups
pub mod Declarations
