pub mod Order
pub mod Memory
pub mod Answers
pub mod Internal
