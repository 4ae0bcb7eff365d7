pub mod Denials
pub mod Iovecs
pub mod Nul
pub mod Ranges
