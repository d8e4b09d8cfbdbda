pub mod Places
pub mod Links
pub mod Counting
pub mod Along
