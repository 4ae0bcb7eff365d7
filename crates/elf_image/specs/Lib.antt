pub mod Fields
pub mod Loading
pub mod Refusal
pub mod Rules
pub mod Span
pub mod inside
