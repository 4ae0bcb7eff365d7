pub mod Counting
pub mod Lengths
pub mod Maps
pub mod Protections
pub mod SegmentPages
pub mod Writable
