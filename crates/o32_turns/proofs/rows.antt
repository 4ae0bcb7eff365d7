pub mod Delivery
pub mod Turns
