pub mod Rooms
pub mod Looking
pub mod Parts
pub mod Choices
pub mod Turns
