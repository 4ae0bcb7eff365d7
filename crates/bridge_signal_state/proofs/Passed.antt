-- Lemmas of the crates below that are passed on, so that a crate above names one crate and not each.
pub use Rattle.bridge_log.proofs.Ends.{Still, still_called, still_keeps, stopped_before}
pub use Rattle.bridge_log.proofs.Histories.{logged_none, logged_then}
pub use Rattle.bridge_log.proofs.Journals.{effected_none, effected_then}
pub use Rattle.bridge_log.proofs.Kernel.{action_fits, info_fits, union_words, without_words}
pub use Rattle.bridge_log.proofs.Looking.{looked_stop, still_told, stopped_row}
pub use Rattle.bridge_log.proofs.Memory.{none_denied-rest}
pub use Rattle.bridge_log.proofs.Mirroring.{mirrors_gives}
pub use Rattle.bridge_log.proofs.Replies.{Fits, outcome_of_failure, outcome_of_value}
pub use Rattle.bridge_log.proofs.Stores.{effected_stored}
