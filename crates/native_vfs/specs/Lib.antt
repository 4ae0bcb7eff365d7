pub mod Answers
pub mod Held
pub mod Keyed
pub mod Seen
pub mod inside
