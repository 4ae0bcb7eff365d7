pub mod Finishing
pub mod Logging
pub mod Plainly
pub mod Quieting
pub mod Recording
pub mod Steps
