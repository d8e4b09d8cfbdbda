pub mod Putting
pub mod Leading
