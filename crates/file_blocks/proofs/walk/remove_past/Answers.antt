use Rattle.std.proofs.Common.{◌+◌, ap, sym, ◌∙◌, arith}
use Rattle.std.specs.FinMap.{len}
use Rattle.file_blocks.proofs.Cuts.{below, below-remove, below-all, len-remove-fewer}
use Rattle.file_blocks.proofs.walk.remove_past.Goals as goal

pub returns-then-from-size-clause-value : goal.returns-then-from-size-clause-value
returns-then-from-size-clause-value c =
    sym (c.loop-last.invariant.same ∙ below-all _ c.args.size (c.in-Some.last + 1) c.in-Some.ensures.greatest (λ h. omega arith))

pub loop-last-smaller : goal.loop-last-smaller
loop-last-smaller c =
    let fewer = len-remove-fewer c.loop-last.blocks c.in-Some.last c.in-Some.ensures.kept in
    omega (arith, ap len c.remove_last.ensures, fewer)

pub loop-last-preserved : goal.loop-last-preserved
loop-last-preserved c =
    let fewer = len-remove-fewer c.loop-last.blocks c.in-Some.last c.in-Some.ensures.kept in
    record {
      same =
          c.loop-last.invariant.same
          ∙ sym (ap (λ m. below m c.args.size) c.remove_last.ensures ∙ below-remove c.loop-last.blocks c.args.size c.in-Some.last (omega arith));
      fewer = omega (arith, ap len c.remove_last.ensures, fewer, c.loop-last.invariant.fewer);
    }

pub returns-clause-value : goal.returns-clause-value
returns-clause-value c =
    sym (c.loop-last.invariant.same ∙ below-all _ c.args.size 0 c.in_default.ensures.none (λ h. omega arith))
