pub mod Index
pub mod Order
