pub mod Adding
pub mod Form
pub mod Meaning
pub mod Reading
pub mod Seen
pub mod Text
pub mod inside
