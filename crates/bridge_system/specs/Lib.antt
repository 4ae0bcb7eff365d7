pub mod Found
pub mod Plain
pub mod System
pub mod inside
