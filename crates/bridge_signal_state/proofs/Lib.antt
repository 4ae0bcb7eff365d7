pub mod Moving
pub mod OneSignal
pub mod Passed
pub mod Rooms
pub mod StateLooks
pub mod TakeLooks
