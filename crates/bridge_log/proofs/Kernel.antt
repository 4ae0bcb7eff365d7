-- Lemmas on what the modelled kernel keeps of signals, passed on for the calls on signals.
pub use Rattle.native_kernel.proofs.MaskLemmas.{union_words}
pub use Rattle.native_kernel.proofs.Read.{length_read}
pub use Rattle.native_kernel.proofs.SignalFields.{action_fits, info_fits}
pub use Rattle.native_kernel.proofs.Unblocked.{without_words}
