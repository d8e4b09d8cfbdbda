pub mod Following
pub mod Closing
pub mod Whole
