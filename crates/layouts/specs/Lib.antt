pub mod Dirents
pub mod Frames
pub mod Native
pub mod Number
pub mod O32
pub mod Shape
pub mod Termios
pub mod Utsname
