pub mod BothTimes
pub mod Paths
pub mod Places
pub mod Tells
