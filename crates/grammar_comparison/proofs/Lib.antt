pub mod Comparisons
pub mod Relations
