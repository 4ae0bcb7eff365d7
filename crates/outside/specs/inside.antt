pub mod Present
pub mod Holding
