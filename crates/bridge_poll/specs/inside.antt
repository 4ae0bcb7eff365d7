pub mod Entries
pub mod Asking
pub mod Telling
pub mod Limited
pub mod Ending
