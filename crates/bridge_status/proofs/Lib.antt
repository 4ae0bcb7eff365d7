pub mod Flags
pub mod Shown
pub mod StatusRows
pub mod TellMirrors
