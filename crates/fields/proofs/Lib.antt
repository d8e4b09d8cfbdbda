pub mod Testing
pub mod Instructions
