pub mod Endings
mod HostRooms
mod LeftBytes
pub mod LimitedRows
pub mod Moving
pub mod ShownTimes
mod Storable
pub mod Storing
pub mod Passed
