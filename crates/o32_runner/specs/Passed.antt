-- Definitions of the crates below that are passed on, so that a crate above names one crate and not each.
pub use Rattle.o32_machine.specs.Passed.{NativeLog, first_log}
