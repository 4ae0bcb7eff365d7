pub mod Still
pub mod rows
