pub mod Guest
pub mod Numbers
pub mod Reading
pub mod Budgets
pub mod Counts
