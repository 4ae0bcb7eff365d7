pub mod Entries
pub mod FdSets
pub mod Masks
pub mod Waiting
