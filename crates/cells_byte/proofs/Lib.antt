pub mod Letters
pub mod Changes
