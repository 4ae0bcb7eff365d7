pub mod Going
pub mod Inserting
pub mod Refusing
