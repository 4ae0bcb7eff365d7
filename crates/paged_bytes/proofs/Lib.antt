pub mod ByteRuns
pub mod Entries
pub mod Puts
