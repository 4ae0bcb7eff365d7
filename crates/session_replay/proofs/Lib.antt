pub mod Repeating
