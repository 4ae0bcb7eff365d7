use Rattle.std.proofs.Common.{◌≡◌, ℕ, ◌*◌, ◌<◌, false, length, drop}
use Rattle.std.specs.Prelude.{slice_index}
use Rattle.layouts.specs.Number.{unsigned}
use Rattle.native_polls.proofs.fd_sets.words_in.Given as goal

-- the words so far
abbrev pub invariant-loop-k : goal.invariant-loop-k
invariant-loop-k l = record {
  long : length l.words ≡ 16;
  are : (j : ℕ) → j < l.k → slice_index l.words j ≡ unsigned false 8 (drop (8 * j) l.bytes);
}
