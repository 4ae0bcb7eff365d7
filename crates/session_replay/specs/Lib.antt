pub mod Replayed
pub mod inside
