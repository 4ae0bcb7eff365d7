pub mod NativeLog
pub mod inside
