pub mod Decoding
pub mod Forms
pub mod Rows
pub mod WordFields
