pub mod Below
pub mod Bits
pub mod Descent
pub mod Mending
pub mod Pigeonhole
pub mod PlaceLemmas
