-- Definitions of the crates below that are passed on, so that a crate above names one crate and not each.
pub use Rattle.bridge_log.specs.Keeping.{Logged}
pub use Rattle.native_log.specs.NativeLog.{NativeLog, as_told, at_time, emptied, first_log}
