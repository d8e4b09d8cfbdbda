pub mod Steps
pub mod Bytes
