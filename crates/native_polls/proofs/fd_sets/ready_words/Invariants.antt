use Rattle.std.proofs.Common.{◌≡◌, length}
use Rattle.native_polls.specs.inside.FdSets.{AreWhere, is_told}
use Rattle.native_polls.proofs.fd_sets.ready_words.Given as goal

-- the words so far
abbrev pub invariant-loop-k : goal.invariant-loop-k
invariant-loop-k g l = record {
  long : length l.ready ≡ 16;
  are : AreWhere (is_told (g.F.Readiness.files l.files) l.count l.words l.side) l.k l.ready;
}
