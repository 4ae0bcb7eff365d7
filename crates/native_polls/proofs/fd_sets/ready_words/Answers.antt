use Rattle.std.proofs.Common.{ℕ, ◌*◌, ◌∙◌, arith}
use Rattle.std.proofs.lemmas.List.{length-set}
use Rattle.native_polls.specs.inside.FdSets.{is_told}
use Rattle.native_polls.proofs.Lists.{words_more}
use Rattle.native_polls.proofs.fd_sets.ready_words.Goals as goal
use Rattle.signal_sets.specs.NativeSets.{bits_where}

pub loop-k-preserved : goal.loop-k-preserved
loop-k-preserved g c = record {
  long = length-set c.loop-k.ready c.loop-k.k c.ready_word.result ∙ c.loop-k.invariant.long;
  are =
      words_more (λ (j : ℕ). bits_where (is_told (g.F.Readiness.files c.args.files.now) c.args.count c.args.words.now c.args.side) (64 * j) 64) c.loop-k.ready c.loop-k.k c.ready_word.result
      (omega (arith, c.loop-k.invariant.long)) c.loop-k.invariant.are c.ready_word.ensures;
}
