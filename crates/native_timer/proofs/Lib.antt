pub mod Again
pub mod FirstPast
