pub mod Answers
pub mod Given
pub mod Listed
pub mod Passing
pub mod Records
pub mod Showing
