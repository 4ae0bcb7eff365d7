pub mod FileKept
pub mod Files
pub mod Room
