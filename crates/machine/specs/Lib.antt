pub mod Machine
pub mod Frame
pub mod Internal
