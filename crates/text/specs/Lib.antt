pub mod Pieces
pub mod Buffer
pub mod Internal
