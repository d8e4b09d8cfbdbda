pub mod Fit
pub mod Statements
