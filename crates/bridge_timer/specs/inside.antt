pub mod Acts
pub mod Endings
pub mod Shown
