pub mod ChanceFills
pub mod LimitMirrors
pub mod PlainCalls
pub mod PlainRows
pub mod TellMirrors
