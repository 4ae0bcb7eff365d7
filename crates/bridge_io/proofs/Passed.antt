-- Lemmas of the crates below that are passed on, so that a crate above names one crate and not each.
pub use Rattle.bridge_log.proofs.Ends.{Alike, called_alike, keeps}
pub use Rattle.bridge_log.proofs.Histories.{logged_none}
pub use Rattle.bridge_log.proofs.Journals.{effected_none}
pub use Rattle.bridge_log.proofs.Replies.{bounded_map, outcome_of_failure, outcome_of_wake}
