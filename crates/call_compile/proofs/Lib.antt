pub mod Written
pub mod Sources
