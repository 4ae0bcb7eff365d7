pub mod Entries
pub mod Times
