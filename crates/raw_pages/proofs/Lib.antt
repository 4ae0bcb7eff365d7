pub mod Counts
pub mod Fills
pub mod Puts
pub mod Runs
pub mod Searches
pub mod Tables
pub mod Zeros
