pub mod Lefts
pub mod Lengths
pub mod Rooms
pub mod Waiting
