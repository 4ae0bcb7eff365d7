pub mod Blockable
pub mod Found
pub mod Left
pub mod Lookup
pub mod Pends
