pub mod NativeSets
pub mod inside
