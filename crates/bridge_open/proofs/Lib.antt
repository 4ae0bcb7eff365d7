pub mod OpenRows
pub mod SizeLooks
