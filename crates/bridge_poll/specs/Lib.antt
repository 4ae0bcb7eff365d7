pub mod Found
pub mod Passed
pub mod inside
