pub mod Numbered
pub mod Standing
pub mod Chains
pub mod Joined
pub mod Choices
pub mod Turns
pub mod Whole
