pub mod Counted
pub mod Moving
pub mod Quiet
pub mod Signals
pub mod Vectors
