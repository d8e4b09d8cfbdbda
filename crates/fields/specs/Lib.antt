pub mod Memory
pub mod Internal
