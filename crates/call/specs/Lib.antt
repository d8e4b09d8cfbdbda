pub mod Reply
pub mod Compile
pub mod ReadingBack
pub mod Run
pub mod Answers
