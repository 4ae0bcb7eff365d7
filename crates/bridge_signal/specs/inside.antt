pub mod Asked
pub mod Endings
pub mod Returns
pub mod Sent
pub mod Stacks
pub mod Told
pub mod Waiting
