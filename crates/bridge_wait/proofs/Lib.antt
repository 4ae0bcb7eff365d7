pub mod Calls
pub mod ClockLooks
pub mod ClockRows
pub mod HostTimes
pub mod Pieces
pub mod SleepMirrors
pub mod Unmoving
