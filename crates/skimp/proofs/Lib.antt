pub mod Conditions
pub mod Lengths
pub mod States
pub mod Written
pub mod Starts
pub mod Promises
