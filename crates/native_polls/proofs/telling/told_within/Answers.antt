use Rattle.std.proofs.Common.{◌≡◌, ◌+◌, ◌*◌, ◌≤◌, drop, ap, ◌∙◌, arith}
use Rattle.std.specs.Prelude.{count_by}
use Rattle.std.proofs.lemmas.List.{take_rest}
use Rattle.kernel_core.specs.Bits.{one_if}
use Rattle.kernel_model.specs.Readiness.{is_any, returned}
use Rattle.native_calls.specs.Polls.{entries_in}
use Rattle.native_polls.specs.inside.Entries.{told_in}
use Rattle.native_polls.proofs.EntryLaws.{counted_more}
use Rattle.native_polls.proofs.telling.told_within.Goals as goal
use Rattle.native_polls.proofs.telling.told_within.Goals.{then-is_any, else-is_any}

pub loop-done-preserved : goal.loop-done-preserved
loop-done-preserved g c =
    let named : c.is_any.result ≡ is_any (told_in (g.F.Readiness.files c.args.files.now) (drop (c.loop-done.done * 8) c.args.bytes.now)) =
    c.is_any.ensures ∙ ap is_any (c.told_in.ensures ∙ ap (told_in (g.F.Readiness.files c.args.files.now)) (take_rest c.args.bytes.now (c.loop-done.done * 8))) in
    let next : c.if-is_any.told ≡ c.loop-done.told + one_if c.is_any.result =
    elim c.if-is_any.branch [
      | then-is_any w ↦
          let bit : one_if c.is_any.result ≡ 1 = ap one_if w.if-is_any.true in
          omega (arith, w.told-is, bit)
      | else-is_any w ↦
          let bit : one_if c.is_any.result ≡ 0 = ap one_if w.if-is_any.false in
          omega (arith, w.told-is, bit)
    ] in
    let bound : c.if-is_any.told ≤ c.loop-done.done + 1 =
    elim c.if-is_any.branch [
      | then-is_any w ↦ omega (arith, w.told-is)
      | else-is_any w ↦ omega (arith, w.told-is)
    ] in
    record {
      all =
          counted_more (g.F.Readiness.files c.args.files.now) c.args.bytes.now c.args.count c.loop-done.done c.loop-done.told c.if-is_any.told
          (count_by is_any (returned (g.F.Readiness.files c.args.files.now) (entries_in c.args.count c.args.bytes.now))) c.is_any.result
          c.loop-done-test.true named next c.loop-done.invariant.all;
      bound = bound;
    }
