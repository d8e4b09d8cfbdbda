pub mod Guess
pub mod Internal
