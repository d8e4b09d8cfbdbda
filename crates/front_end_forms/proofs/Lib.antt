pub mod Stages
pub mod Counting
pub mod Steps
pub mod Labelling
pub mod Placing
pub mod Instructing
