pub mod Closing
pub mod Concluding
