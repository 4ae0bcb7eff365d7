pub mod ByWords
pub mod NodeRows
pub mod OptionalPaths
pub mod Rows
pub mod SizeRows
pub mod Tellings
pub mod TextTells
pub mod TimeRows
