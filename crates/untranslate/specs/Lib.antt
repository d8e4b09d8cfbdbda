pub mod Internal
pub mod Answers
