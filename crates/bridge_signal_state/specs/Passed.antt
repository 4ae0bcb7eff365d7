-- Definitions of the crates below that are passed on, so that a crate above names one crate and not each.
pub use Rattle.bridge_log.specs.Arguments.{AreUnusedZero, IsPlaced}
pub use Rattle.bridge_log.specs.Built.{built_call}
pub use Rattle.bridge_log.specs.Keeping.{EffectsLead, Keeps, KeepsCall, Logged, reached}
pub use Rattle.bridge_log.specs.Leading.{LeadsOn}
pub use Rattle.bridge_log.specs.Looks.{IsLook, LooksFor, Unmoved}
pub use Rattle.bridge_log.specs.Mirrors.{Mirrors}
pub use Rattle.bridge_log.specs.Moved.{written}
pub use Rattle.bridge_log.specs.Outcomes.{by_reply, error_of, outcome_of}
pub use Rattle.bridge_log.specs.Proceeding.{Proceeds}
pub use Rattle.bridge_log.specs.Storing.{Ending, ended, ending, fails, stores, stores_unless_null}
