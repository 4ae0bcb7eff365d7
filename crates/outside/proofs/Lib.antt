pub mod CountLemmas
pub mod OutputLemmas
pub mod StreamLemmas
pub mod FileLemmas
pub mod HeldLemmas
