mod EffectLaws
mod FieldLaws
pub mod Gains
mod Guards
mod JournalLaws
pub mod Lengths
pub mod Loops
mod ManyLaws
mod RecordLaws
pub mod Texts
