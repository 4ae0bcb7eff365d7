pub mod Descriptions
pub mod Links
