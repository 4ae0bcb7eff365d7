-- Definitions of the crates below that are passed on, so that a crate above names one crate and not each.
pub use Rattle.bridge_signal_state.specs.Acts.{Acted, Moves}
pub use Rattle.bridge_signal_state.specs.Passed.{EffectsLead, IsLook, Keeps, KeepsCall, LeadsOn, Logged, LooksFor, Proceeds, Unmoved, error_of, outcome_of, reached, written}
