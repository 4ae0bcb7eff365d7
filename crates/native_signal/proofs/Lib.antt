pub mod PlaceNumbers
pub mod BitLaws
pub mod SetLaws
pub mod KeptLaws
pub mod Soundness
pub mod LatePost
pub mod SetMarks
