-- Lemmas of the crates below that are passed on, so that a crate above names one crate and not each.
pub use Rattle.bridge_log.proofs.Ends.{Alike, Still, called_alike, fails_before, keeps, still_called, still_keeps, stopped_alike}
pub use Rattle.bridge_log.proofs.Looking.{kept_then, looked_stop, row_then, still_told, stopped_row}
pub use Rattle.bridge_log.proofs.Memory.{denied-join, first_or, prefix-stores}
pub use Rattle.bridge_log.proofs.Mirroring.{mirrors_alike, mirrors_called, mirrors_keeps}
pub use Rattle.bridge_log.proofs.Replies.{Fits, outcome_of_wake, word_stays}
