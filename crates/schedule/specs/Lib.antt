pub mod Cursor
pub mod Grammar
pub mod Ranges
pub mod Statement
pub mod Text
pub mod inside
