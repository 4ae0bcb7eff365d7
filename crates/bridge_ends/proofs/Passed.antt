-- Lemmas of the crates below that are passed on, so that a crate above names one crate and not each.
pub use Rattle.bridge_poll.proofs.Passed.{effected_none, effected_stored, effected_then, logged_none, logged_then, moves_look}
