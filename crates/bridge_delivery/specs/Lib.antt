pub mod Ended
pub mod inside
