pub mod Names
pub mod FirstCells
pub mod Scanning
