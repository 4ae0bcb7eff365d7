use Rattle.std.proofs.Common.{◌≡◌, ◌+◌, ◌≤◌, length, ap, arith}
use Rattle.kernel_core.specs.Bits.{one_if}
use Rattle.native_polls.specs.inside.FdSets.{fds_of}
use Rattle.native_polls.proofs.SetLaws.{sized_more}
use Rattle.native_polls.proofs.fd_sets.size_of.Goals as goal
use Rattle.native_polls.proofs.fd_sets.size_of.Goals.{then-has, else-has}

pub loop-fd-preserved : goal.loop-fd-preserved
loop-fd-preserved c =
    let next : c.if-has.size ≡ c.loop-fd.size + one_if c.has.result =
    elim c.if-has.branch [
      | then-has w ↦
          let bit : one_if c.has.result ≡ 1 = ap one_if w.if-has.true in
          omega (arith, w.size-is, bit)
      | else-has w ↦
          let bit : one_if c.has.result ≡ 0 = ap one_if w.if-has.false in
          omega (arith, w.size-is, bit)
    ] in
    let bound : c.if-has.size ≤ c.loop-fd.fd + 1 =
    elim c.if-has.branch [
      | then-has w ↦ omega (arith, w.size-is)
      | else-has w ↦ omega (arith, w.size-is)
    ] in
    record {
      all =
          sized_more c.args.words.now c.loop-fd.fd c.args.count c.loop-fd.size c.if-has.size (length (fds_of c.args.count c.args.words.now)) c.has.result
          c.loop-fd-test.true c.has.ensures next c.loop-fd.invariant.all;
      bound = bound;
    }
