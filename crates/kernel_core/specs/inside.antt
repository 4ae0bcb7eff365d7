pub mod BitLaws
pub mod EventBits
pub mod MapBits
pub mod OpenBits
pub mod SaBits
