pub mod Entry
pub mod Keeping
pub mod Run
pub mod Turn
pub mod inside
