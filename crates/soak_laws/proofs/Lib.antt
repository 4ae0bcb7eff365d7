pub mod Accepted
pub mod Judged
pub mod Planned
pub mod Shape
