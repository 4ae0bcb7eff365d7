pub mod Clocks
pub mod Contents
pub mod Descriptors
pub mod Limits
pub mod Names
pub mod Signals
pub mod Small
pub mod Transfers
