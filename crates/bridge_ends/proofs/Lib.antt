pub mod KeptEnds
pub mod Passed
pub mod Posts
pub mod SameEnds
