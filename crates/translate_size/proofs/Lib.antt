pub mod Counting
pub mod Looking
pub mod Conditions
pub mod Statements
