pub mod Words
pub mod Asked
pub mod Session
pub mod Soaked
pub mod SavedFile
pub mod LeftJournal
pub mod inside
