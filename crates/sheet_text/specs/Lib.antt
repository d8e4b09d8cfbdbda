pub mod TextOfFields
pub mod Answers
pub mod Internal
