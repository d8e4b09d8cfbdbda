pub mod Worked
pub mod Promises
