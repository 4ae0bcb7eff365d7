pub mod Limits
pub mod Tells
