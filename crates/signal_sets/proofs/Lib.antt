pub mod GatherLaws
pub mod HalfWords
pub mod Known
pub mod SameSets
pub mod Turned
pub mod Turning
