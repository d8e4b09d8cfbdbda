pub mod Limits
pub mod Order
pub mod Memory
pub mod Object
pub mod Good
