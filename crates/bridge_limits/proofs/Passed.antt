-- Lemmas of the crates below that are passed on, so that a crate above names one crate and not each.
pub use Rattle.bridge_signal_state.proofs.Moving.{moves_look}
pub use Rattle.bridge_signal_state.proofs.Passed.{effected_none, effected_stored, effected_then, logged_none, logged_then, looked_stop, none_denied-rest, outcome_of_failure, outcome_of_value, still_told, stopped_row}
