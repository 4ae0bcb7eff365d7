pub mod DescriptionLemmas
pub mod LinkLemmas
pub mod LowestLemmas
pub mod TableLemmas
