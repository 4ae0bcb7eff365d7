pub mod Frames
pub mod Lends
