pub mod Found
pub mod HostPaths
pub mod Passed
pub mod Refusals
