pub mod Ends
pub mod Limits
pub mod Passed
pub mod inside
