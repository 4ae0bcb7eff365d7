pub mod Carrying
pub mod Entries
pub mod Faults
pub mod StepPages
pub mod Stepwise
pub mod Syscalls
pub mod Untouched
