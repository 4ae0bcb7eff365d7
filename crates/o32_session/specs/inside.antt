pub mod Prepared
pub mod Runs
pub mod Soaking
