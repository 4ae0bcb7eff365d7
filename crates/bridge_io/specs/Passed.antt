-- Definitions of the crates below that are passed on, so that a crate above names one crate and not each.
pub use Rattle.bridge_log.specs.Arguments.{AreUnusedZero, IsPlaced}
pub use Rattle.bridge_log.specs.Bounds.{Bounded}
pub use Rattle.bridge_log.specs.Built.{built_call}
pub use Rattle.bridge_log.specs.Fills.{Fills}
pub use Rattle.bridge_log.specs.Keeping.{EffectsLead, Keeps, KeepsCall, Logged, reached}
pub use Rattle.bridge_log.specs.Mirrors.{Mirrors}
pub use Rattle.bridge_log.specs.Outcomes.{by_reply, outcome_of}
pub use Rattle.bridge_log.specs.Proceeding.{Proceeds}
