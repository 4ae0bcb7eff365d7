pub mod Ended
pub mod Ends
pub mod Passed
pub mod inside
