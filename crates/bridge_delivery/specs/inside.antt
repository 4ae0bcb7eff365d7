pub mod Frames
pub mod Processes
pub mod Standings
