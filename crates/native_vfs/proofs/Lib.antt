pub mod additions
pub mod contents
pub mod removals
pub mod renames
pub mod tables
pub mod trees
pub mod walks
