pub mod FirstMemory
pub mod Stack
pub mod Start
