pub mod Fronts
pub mod Decimal
pub mod Turns
pub mod Writing
pub mod Places
