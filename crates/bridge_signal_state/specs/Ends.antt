-- Definitions of the crate below on the ends of waits, passed on, so that a crate above names one crate and not each.
pub use Rattle.bridge_log.specs.Ends.{Closes, Keeps, KeepsEnd}
