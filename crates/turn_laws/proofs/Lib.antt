pub mod Ending
pub mod Enough
pub mod Sums
