pub mod Numbers
pub mod Instructions
pub mod Executable
pub mod Line
