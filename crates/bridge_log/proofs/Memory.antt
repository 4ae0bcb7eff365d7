-- Lemmas on ranges of a program's memory, passed on for the calls that load and store.
pub use Rattle.bridge_mem.proofs.Denials.{denied-join, first_or, none_denied-rest}
pub use Rattle.bridge_mem.proofs.Nul.{position-after}
pub use Rattle.bridge_mem.proofs.Ranges.{Scattered, prefix-stores, scattered-next, split}
