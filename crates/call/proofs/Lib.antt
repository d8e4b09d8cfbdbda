pub mod Texts
pub mod Refused
pub mod Resume
pub mod Worked
