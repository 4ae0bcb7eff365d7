use Rattle.std.proofs.Common.{ℕ, ◌*◌, ◌∙◌, false, drop, arith}
use Rattle.std.proofs.lemmas.List.{length-set}
use Rattle.layouts.specs.Number.{unsigned}
use Rattle.native_polls.proofs.Lists.{words_more}
use Rattle.native_polls.proofs.fd_sets.words_in.Goals as goal

pub loop-k-preserved : goal.loop-k-preserved
loop-k-preserved c = record {
  long = length-set c.loop-k.words c.loop-k.k c.double_at.result ∙ c.loop-k.invariant.long;
  are =
      words_more (λ (j : ℕ). unsigned false 8 (drop (8 * j) c.args.bytes.now)) c.loop-k.words c.loop-k.k c.double_at.result
      (omega (arith, c.loop-k.invariant.long, c.requires.few)) c.loop-k.invariant.are c.double_at.ensures;
}
