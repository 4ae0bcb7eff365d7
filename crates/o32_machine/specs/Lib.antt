pub mod Answered
pub mod Emulator
pub mod Native
pub mod Passed
pub mod Quiet
pub mod Records
pub mod inside
