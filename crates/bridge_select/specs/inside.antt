pub mod Ending
pub mod FdSets
pub mod Handing
pub mod Requests
pub mod Telling
