pub mod Instructions
pub mod Words
pub mod inside
