pub mod Acting
pub mod Acts
pub mod Ends
pub mod Passed
pub mod Setting
pub mod inside
