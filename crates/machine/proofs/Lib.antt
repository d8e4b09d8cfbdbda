pub mod Worked
pub mod Effects
pub mod Steps
pub mod Resume
pub mod Alike
pub mod Kept
pub mod Invariants
pub mod Frame
