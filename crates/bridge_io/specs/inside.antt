pub mod Outcomes
pub mod Plans
pub mod Purposes
pub mod Rooms
pub mod Stores
pub mod Takes
pub mod Written
