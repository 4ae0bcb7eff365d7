-- Definitions of the crates below that are passed on, so that a crate above names one crate and not each.
pub use Rattle.bridge_poll.specs.Passed.{Acted, EffectsLead, LeadsOn, Logged, Moves, Proceeds, Unmoved, reached, written}
