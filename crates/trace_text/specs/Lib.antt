pub mod Digits
pub mod Trace
pub mod NativeLog
