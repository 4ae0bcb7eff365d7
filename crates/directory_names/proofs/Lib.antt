mod IndexLemmas
mod Lists
mod OrderLemmas
pub mod LoadLemmas
pub mod NameLemmas
pub mod PlainLemmas
pub mod Validity
