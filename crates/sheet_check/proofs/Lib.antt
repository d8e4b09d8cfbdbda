pub mod States
pub mod Complete
pub mod Sound
pub mod Passes
