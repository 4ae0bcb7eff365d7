pub mod Closed
pub mod HostRooms
mod Lending
pub mod Naming
pub mod Rows
