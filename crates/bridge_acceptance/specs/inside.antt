pub mod Accepting
pub mod Telling
pub mod Named
