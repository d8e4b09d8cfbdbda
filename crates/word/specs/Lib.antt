pub mod Word
pub mod Integers
pub mod Readings
