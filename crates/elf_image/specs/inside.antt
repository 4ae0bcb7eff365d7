pub mod Header
pub mod Judges
pub mod Taken
