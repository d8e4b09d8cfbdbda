pub mod Choice
pub mod Places
pub mod Text
pub mod Front
