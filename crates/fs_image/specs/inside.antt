pub mod Kinds
pub mod Names
pub mod Valid
pub mod Walk
pub mod Writing
