use Rattle.std.proofs.Common.{◌+◌, ◌-◌, arith}
use Rattle.std.proofs.Math.Pow.{pow_mono}
use Rattle.native_polls.specs.inside.FdSets.{is_told}
use Rattle.native_polls.proofs.Lists.{where_small, where_zero}
use Rattle.native_polls.proofs.SetLaws.{word_more}
use Rattle.native_polls.proofs.fd_sets.ready_word.Goals as goal

pub loop-done-init : goal.loop-done-init
loop-done-init g c = where_zero (is_told (g.F.Readiness.files c.args.files.now) c.args.count c.args.words.now c.args.side) (c.args.first + 64)

pub with_bit-word-requires : goal.with_bit-word-requires
with_bit-word-requires g c =
    omega (
      arith,
      c.loop-done.invariant,
      where_small (is_told (g.F.Readiness.files c.args.files.now) c.args.count c.args.words.now c.args.side) (c.args.first + (64 - c.loop-done.done)) c.loop-done.done,
      pow_mono {i = c.loop-done.done} {j = 63} (omega arith),
    )

pub loop-done-preserved : goal.loop-done-preserved
loop-done-preserved g c =
    word_more (is_told (g.F.Readiness.files c.args.files.now) c.args.count c.args.words.now c.args.side) c.args.first c.loop-done.done c.loop-done.word c.with_bit-word.result
    c.is_told-told.result c.loop-done-test.true c.is_told-told.ensures c.with_bit-word.ensures c.loop-done.invariant
