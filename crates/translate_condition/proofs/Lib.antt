pub mod Looking
pub mod Tries
