pub mod FrameValues
pub mod Peers
pub mod Values
