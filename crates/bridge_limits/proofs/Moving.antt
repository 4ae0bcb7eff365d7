-- Lemmas on moves of the kernel, passed on for the calls that wait so.
pub use Rattle.bridge_signal_state.proofs.Moving.{acted_after, moves_look, moves_none}
