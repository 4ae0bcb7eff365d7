pub mod Components
pub mod NameLemmas
pub mod StepLemmas
pub mod TextLemmas
pub mod WalkLemmas
