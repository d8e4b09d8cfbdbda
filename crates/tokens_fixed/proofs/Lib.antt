pub mod Keywords
pub mod Signs
