pub mod Counting
pub mod Headers
pub mod Judging
pub mod Parts
pub mod Whole
