pub mod Fields
pub mod Counting
pub mod Meaning
pub mod Rounds
pub mod rows
