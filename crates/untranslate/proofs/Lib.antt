pub mod Again
pub mod Sheets
