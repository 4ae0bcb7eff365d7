pub mod Answered
pub mod Replay
pub mod Whole
pub mod inside
