pub mod Left
pub mod Reads
pub mod Writing
