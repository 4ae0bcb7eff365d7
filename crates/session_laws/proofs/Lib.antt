pub mod Asking
pub mod Prefixes
pub mod Ran
pub mod Repeating
