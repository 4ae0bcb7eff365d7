pub mod Fitting
pub mod inside
