pub mod Linking
pub mod Operands
pub mod Links
pub mod Nesting
