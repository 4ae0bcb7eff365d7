pub mod Adding
pub mod Meaning
pub mod Naming
pub mod Reading
pub mod Refusal
pub mod Text
pub mod inside
