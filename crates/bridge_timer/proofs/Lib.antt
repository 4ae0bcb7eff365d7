pub mod Acting
pub mod AlarmRows
pub mod Calls
pub mod HostSettings
pub mod TimerLooks
pub mod TimerRows
