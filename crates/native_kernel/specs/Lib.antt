pub mod Built
pub mod Settings
pub mod inside
