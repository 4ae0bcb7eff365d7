pub mod Digits
pub mod FirstFault
pub mod InRange
pub mod InTurn
pub mod Pieces
