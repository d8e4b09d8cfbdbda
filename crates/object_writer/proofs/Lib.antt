pub mod WriteAgain
pub mod Writing
