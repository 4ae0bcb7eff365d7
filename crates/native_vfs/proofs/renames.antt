pub mod Clearing
pub mod Movable
pub mod MovedEntries
pub mod RenameEnds
pub mod Renames
