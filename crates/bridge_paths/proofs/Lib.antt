pub mod ByNumber
pub mod HostPaths
pub mod Passed
pub mod Refusing
pub mod Rows
